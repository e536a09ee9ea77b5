pub mod Strips
pub mod Layers
pub mod Sweep
