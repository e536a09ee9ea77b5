pub mod Reading
pub mod Clocks
