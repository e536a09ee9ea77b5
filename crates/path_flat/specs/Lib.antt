pub mod Order
pub mod Numbers
pub mod Rows
pub mod Adding
pub mod Feeding
pub mod Numbered
