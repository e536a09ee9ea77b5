pub mod Density
pub mod Rows
