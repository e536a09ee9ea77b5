pub mod Grid
pub mod Blocks
pub mod Rows
pub mod Repainting
