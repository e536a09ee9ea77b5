pub mod Control
pub mod Wants
