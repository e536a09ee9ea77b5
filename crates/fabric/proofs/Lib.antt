pub mod Bases
pub mod Lying
pub mod Apart
mod Adding
mod Low
mod Counts
mod Classes
mod Entries
mod Lookups
mod Switching
