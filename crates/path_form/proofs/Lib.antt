pub mod Joining
pub mod Growing
mod Covering
mod Pulling
mod FlatShowing
