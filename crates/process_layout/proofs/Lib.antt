mod Listing
mod Indexing
mod Once
mod Roles
mod Whole
mod Growth
mod Called
mod Ordered
pub mod Returning
pub mod Keeping
pub mod Origins
