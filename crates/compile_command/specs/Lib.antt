pub mod Compiled
pub mod Work
