pub mod Windows
pub mod Reaching
