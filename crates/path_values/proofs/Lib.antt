mod Syncing
mod Passing
mod Writing
mod Knowing
pub mod Realized
mod Taming
