pub mod Latching
pub mod Words
pub mod Continuing
pub mod Writing
pub mod Feeding
pub mod StoredWords
