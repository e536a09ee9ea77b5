pub mod Adding
pub mod Forms
pub mod Copies
pub mod Places
pub mod Roots
