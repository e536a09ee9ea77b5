mod Unbroken
mod Sequenced
pub mod Written
mod Composed
mod Sizes
