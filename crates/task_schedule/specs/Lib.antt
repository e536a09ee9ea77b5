pub mod Schedule
pub mod Turns
