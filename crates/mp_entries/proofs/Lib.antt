pub mod InRange
pub mod Numbering
