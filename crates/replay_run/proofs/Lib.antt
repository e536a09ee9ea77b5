mod ProgramPads
pub mod Causes
mod Counting
mod Replaying
pub mod Chips
