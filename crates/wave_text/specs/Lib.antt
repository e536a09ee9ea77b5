pub mod Numbered
pub mod Waves
