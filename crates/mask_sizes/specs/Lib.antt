pub mod Sums
pub mod Measured
