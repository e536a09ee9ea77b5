mod Reaching
mod Rounds
mod Marks
mod Bounds
mod Exists
mod Again
mod Owners
pub mod Joins
pub mod Naming
pub mod Circuits
pub mod SwitchKinds
pub mod Labels
mod Pieces
mod Unique
mod FirstBroken
mod Determined
mod Driving
mod Labelling
mod Runs
