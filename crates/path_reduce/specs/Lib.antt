pub mod Reducing
pub mod Images
pub mod Tables
