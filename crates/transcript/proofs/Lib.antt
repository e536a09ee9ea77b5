pub mod Inputs
pub mod Printing
pub mod Transcripts
