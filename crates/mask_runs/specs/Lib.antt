pub mod Colours
pub mod Runs
pub mod Laws
