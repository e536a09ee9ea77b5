pub mod Planned
pub mod Ratioed
