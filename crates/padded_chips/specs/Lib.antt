pub mod Padding
pub mod Carrying
