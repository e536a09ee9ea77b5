pub mod Naming
pub mod Sorts
pub mod Standing
pub mod Rules
pub mod Breaking
