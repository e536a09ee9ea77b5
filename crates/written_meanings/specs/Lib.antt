pub mod Firsts
pub mod Meanings
pub mod Functions
pub mod Owners
