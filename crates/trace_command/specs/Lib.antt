pub mod Traced
pub mod Transcript
pub mod Work
