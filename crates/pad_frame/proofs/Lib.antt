mod Framing
mod Drawing
mod Example
pub mod Loose
