pub mod Lists
pub mod Tables
pub mod Keeping
pub mod Entering
pub mod Joints
pub mod Added
pub mod Stepping
pub mod Beginning
