pub mod Tables
pub mod Labels
pub mod Marks
