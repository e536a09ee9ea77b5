pub mod Borders
pub mod Kept
