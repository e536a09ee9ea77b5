pub mod Earliest
pub mod Lists
pub mod Inside
pub mod Entries
pub mod Broken
pub mod Naming
pub mod Marking
pub mod Astray
