pub mod Realizing
pub mod Allocated
