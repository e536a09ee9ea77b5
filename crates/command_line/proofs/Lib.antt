pub mod Settings
pub mod Plain
pub mod Levels
pub mod Links
pub mod Exact
pub mod Parsed
