pub mod Listing
pub mod Unknown
mod Linking
mod Adding
mod Spreading
mod Picking
mod Giving
