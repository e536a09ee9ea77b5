pub mod Rails
pub mod Size
pub mod Adding
pub mod Exprs
pub mod Cells
