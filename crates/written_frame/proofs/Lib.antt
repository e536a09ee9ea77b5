pub mod Frames
mod SameReads
pub mod SameRules
