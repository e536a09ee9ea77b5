pub mod Gaining
pub mod Linked
pub mod LinksMade
mod Owners
mod Owning
mod Numbered
mod Joining
mod Together
mod Classing
