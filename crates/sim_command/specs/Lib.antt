pub mod Showing
pub mod Simulated
pub mod Work
