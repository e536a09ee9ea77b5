pub mod Pins
pub mod Layouts
