pub mod Testing
pub mod Likeness
pub mod Whole
