pub mod Becoming
pub mod Testing
