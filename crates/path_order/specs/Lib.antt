pub mod Order
pub mod Marked
