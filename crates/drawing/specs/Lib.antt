pub mod Draws
pub mod Carrying
