pub mod Defined
pub mod Finding
pub mod Misuse
pub mod Repeats
pub mod Sorting
