pub mod Layouts
pub mod Counts
pub mod Steps
pub mod Index
pub mod Laying
pub mod Holding
pub mod Calling
