pub mod Number
pub mod Command
pub mod App
pub mod Read
