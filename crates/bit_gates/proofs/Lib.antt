pub mod Zipping
pub mod Adding
mod Groups
mod Naming
mod Terms
pub mod Next
