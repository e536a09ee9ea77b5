pub mod Wrote
pub mod Numbers
pub mod Files
