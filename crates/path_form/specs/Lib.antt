pub mod Nets
pub mod Shape
pub mod Sizes
pub mod Showing
pub mod Flat
pub mod Extending
pub mod Laws
