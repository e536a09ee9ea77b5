mod Adding
pub mod Entries
mod Heights
