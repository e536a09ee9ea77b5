mod Known
mod Unbroken
pub mod Clocks
pub mod Inputs
pub mod Transcripts
