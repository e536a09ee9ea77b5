pub mod Laid
pub mod Steps
pub mod Tapped
pub mod Crossed
