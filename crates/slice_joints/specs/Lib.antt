pub mod Joining
pub mod Tapping
pub mod Control
