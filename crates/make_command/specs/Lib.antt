pub mod Made
pub mod Work
