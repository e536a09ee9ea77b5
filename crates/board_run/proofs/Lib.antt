mod Left
mod Planned
mod Plain
pub mod Feeds
pub mod Stretches
pub mod Boards
pub mod Chips
pub mod Following
