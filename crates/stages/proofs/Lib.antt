pub mod Ending
pub mod Existence
