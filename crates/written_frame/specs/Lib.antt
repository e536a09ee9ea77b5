pub mod Frame
pub mod SameRules
