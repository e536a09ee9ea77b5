pub mod Members
pub mod Counting
pub mod Owing
pub mod Paying
pub mod Sorts
pub mod Uses
mod Merging
mod Doing
mod Moving
mod Copying
mod Enabling
mod Scene
mod Defining
mod Jumping
mod Placing
mod Stacking
mod Simulating
mod Tracing
mod Ordering
mod Sounding
mod Facing
mod Totals
mod Fitting
pub mod Keeping
mod Resetting
mod Sameness
pub mod Census
pub mod Enables
