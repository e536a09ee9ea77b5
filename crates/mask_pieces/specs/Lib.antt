pub mod Pieces
pub mod Merging
pub mod Columns
pub mod Masks
pub mod CutOf
