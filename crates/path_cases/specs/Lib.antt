pub mod Counter
pub mod Flat
