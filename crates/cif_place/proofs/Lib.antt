pub mod Numbers
pub mod Placements
pub mod Turns
pub mod Shapes
pub mod Held
pub mod Points
