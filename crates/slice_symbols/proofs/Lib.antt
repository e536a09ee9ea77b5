mod Members
mod InOrder
mod Orders
pub mod Lifting
mod Banded
mod Stood
mod Parted
mod Sharing
mod Heights
mod Drawn
mod Unique
mod Puts
mod Existing
