pub mod Planned
pub mod Laws
pub mod Labels
pub mod Fabrics
pub mod Rows
pub mod Sound
