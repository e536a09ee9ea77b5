pub mod Ordered
pub mod Entries
