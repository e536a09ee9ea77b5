pub mod Transcripts
pub mod Circuits
