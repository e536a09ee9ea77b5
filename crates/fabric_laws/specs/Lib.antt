pub mod Theorem
pub mod Sized
pub mod Clean
pub mod West
