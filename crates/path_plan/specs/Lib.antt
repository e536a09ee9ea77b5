pub mod Paths
pub mod Sizes
pub mod Plans
