pub mod Meaning
pub mod Seconds
pub mod Named
pub mod Keys
pub mod Table
pub mod Meant
