pub mod Each
pub mod Counting
pub mod Fitting
pub mod OneCell
pub mod ReadBy
pub mod Sounding
