pub mod Deciding
mod Forms
pub mod Words
pub mod Ruled
mod Verdict
