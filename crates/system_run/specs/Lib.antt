pub mod Parts
pub mod Statuses
pub mod Words
