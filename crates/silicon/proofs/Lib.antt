pub mod RunLemmas
pub mod FirstFault
pub mod Existence
pub mod Silence
pub mod Completeness
pub mod Moves
pub mod Making
pub mod Others
