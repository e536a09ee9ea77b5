pub mod Replayed
pub mod Played
pub mod Work
