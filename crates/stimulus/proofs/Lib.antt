pub mod Adding
pub mod Apart
pub mod Bits
pub mod Fitness
pub mod Giving
pub mod Naming
pub mod Once
pub mod Stepping
pub mod Values
pub mod Texts
pub mod FirstOnce
pub mod Verdict
pub mod Words
mod Examples
