pub mod Rules
pub mod Reading
pub mod Fitting
pub mod Inputs
pub mod Bits
pub mod Transcript
