pub mod Numbers
pub mod Fitting
pub mod Sums
pub mod OneSum
