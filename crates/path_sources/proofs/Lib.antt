mod Telling
mod Ends
pub mod Elements
