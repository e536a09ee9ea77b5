pub mod Lines
pub mod Work
