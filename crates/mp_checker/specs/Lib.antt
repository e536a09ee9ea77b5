pub mod Checking
pub mod Kept
