pub mod Entries
pub mod Links
pub mod Pins
pub mod Layouts
