pub mod Ruled
pub mod Keeping
pub mod Padded
