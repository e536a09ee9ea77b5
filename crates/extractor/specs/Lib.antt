pub mod Naming
pub mod Tagging
pub mod Driving
pub mod Extracted
