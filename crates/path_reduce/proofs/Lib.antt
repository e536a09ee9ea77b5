pub mod Covering
pub mod Following
pub mod Pulling
pub mod Shown
