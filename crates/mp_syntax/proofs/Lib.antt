pub mod Standing
pub mod Counts
pub mod Fitting
mod Distinct
mod Holding
mod OnePlace
mod Heights
mod Trees
pub mod Widths
pub mod Unique
pub mod Verdict
