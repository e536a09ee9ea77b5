pub mod Inputs
pub mod Digits
pub mod Lines
pub mod Stimuli
pub mod Lengths
