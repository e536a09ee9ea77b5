pub mod Linked
pub mod Written
pub mod Jumps
