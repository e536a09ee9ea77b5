pub mod Tiles
pub mod Touching
pub mod Sweeps
