pub mod Counts
pub mod Totals
pub mod Tallies
pub mod Costs
pub mod Frames
