pub mod Source
pub mod Transcript
pub mod Tracer
pub mod Laws
