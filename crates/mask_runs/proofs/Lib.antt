pub mod Runs
mod Colouring
