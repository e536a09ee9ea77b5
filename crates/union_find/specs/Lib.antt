pub mod Leasts
pub mod Roots
