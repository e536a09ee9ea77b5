pub mod Lists
pub mod Tests
pub mod Reading
pub mod Weighing
pub mod Unbroken
