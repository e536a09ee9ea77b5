pub mod Composing
mod Paths
mod Settling
mod Running
