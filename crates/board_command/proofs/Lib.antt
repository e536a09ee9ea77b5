pub mod Judging
pub mod Leaving
pub mod Given
pub mod Known
pub mod Endings
pub mod Existence
pub mod FirstFault
mod Others
