pub mod Values
pub mod Links
pub mod Board
pub mod Spread
pub mod Give
pub mod Rooms
