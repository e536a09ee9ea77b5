pub mod Left
pub mod Swaps
pub mod Boarded
pub mod Standing
pub mod Laws
