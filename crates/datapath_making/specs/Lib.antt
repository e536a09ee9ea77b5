pub mod Growing
pub mod Sizes
pub mod Marking
pub mod WellMade
pub mod Additions
pub mod Steps
