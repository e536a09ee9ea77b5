pub mod Scan
pub mod Gaps
pub mod Clean
pub mod Blocks
pub mod Reached
pub mod Order
mod Nesting
pub mod Soundness
pub mod Unique
pub mod First
pub mod Symbols
pub mod Verdict
pub mod Nested
