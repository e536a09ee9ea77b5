pub mod Added
pub mod Taps
pub mod Paths
pub mod Fitting
