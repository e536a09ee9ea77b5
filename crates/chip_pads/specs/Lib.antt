pub mod Ports
pub mod Heights
pub mod Unders
