pub mod Chains
pub mod Squares
pub mod Moves
pub mod Spans
pub mod Extent
pub mod Inside
pub mod Rules
