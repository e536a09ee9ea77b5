pub mod Stimulus
pub mod Faults
