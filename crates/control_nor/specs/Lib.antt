pub mod Lowering
pub mod Tasks
pub mod Progress
pub mod Meaning
pub mod Done
pub mod First
pub mod NextValues
