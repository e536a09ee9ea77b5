mod Joined
mod ControlColumns
pub mod Sides
