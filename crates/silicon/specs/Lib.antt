pub mod Faults
pub mod Parts
pub mod Run
pub mod Complete
pub mod ReadBack
