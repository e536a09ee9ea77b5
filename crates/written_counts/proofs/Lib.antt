pub mod Sums
mod Cuts
mod Adding
mod Readiness
mod Tallied
pub mod Equations
pub mod Counted
pub mod Weighed
mod PieceCosts
mod FrameWeights
mod Totalled
