pub mod Growing
pub mod Turning
pub mod Storing
pub mod Showing
pub mod Entries
