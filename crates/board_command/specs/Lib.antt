pub mod Parts
pub mod Linked
pub mod Played
pub mod Work
pub mod Shown
