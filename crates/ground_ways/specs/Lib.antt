pub mod Ways
pub mod Ratioed
