pub mod Heights
pub mod Ordered
pub mod Shared
pub mod Standing
pub mod Drawn
