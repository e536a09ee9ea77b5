pub mod Capping
pub mod Counting
pub mod Terms
pub mod Calling
