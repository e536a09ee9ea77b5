pub mod Table
pub mod Misuse
pub mod Uneven
pub mod Taken
pub mod Sorting
