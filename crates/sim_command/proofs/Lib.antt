pub mod Existence
pub mod FirstFault
pub mod Simulating
