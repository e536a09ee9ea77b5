pub mod Order
pub mod Work
pub mod Line
pub mod World
pub mod Halt
