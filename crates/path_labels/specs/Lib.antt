pub mod Corners
pub mod Labels
