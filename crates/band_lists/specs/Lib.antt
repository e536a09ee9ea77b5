pub mod Kinds
pub mod Pins
pub mod Homed
pub mod Spans
pub mod Listed
