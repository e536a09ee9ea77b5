pub mod Cutting
pub mod FormsDecided
pub mod Numbers
pub mod Unique
