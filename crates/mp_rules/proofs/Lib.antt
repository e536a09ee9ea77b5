pub mod EarliestPlaces
pub mod Own
pub mod Sequences
pub mod Unbroken
mod Places
mod Few
mod Moving
