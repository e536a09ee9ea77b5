pub mod Soundness
pub mod Trees
pub mod Tables
pub mod Pieces
pub mod SamePrograms
pub mod Roots
mod OneExpansion
mod Rows
