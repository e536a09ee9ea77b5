pub mod Sliced
pub mod Drawn
pub mod Sizes
pub mod Order
pub mod Ends
pub mod Columns
pub mod Groups
pub mod Unders
