pub mod Transcript
pub mod Simulation
pub mod Laws
