pub mod First
pub mod Areas
pub mod Cuts
pub mod Backed
