pub mod Growth
pub mod Moves
pub mod Jumps
