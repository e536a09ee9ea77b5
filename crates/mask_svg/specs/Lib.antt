pub mod Frames
pub mod Heights
pub mod Looks
pub mod Pictures
