pub mod Moved
pub mod Remembered
pub mod Settled
pub mod Running
pub mod Inside
