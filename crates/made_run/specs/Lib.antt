pub mod Summing
pub mod Summary
