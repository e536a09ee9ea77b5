pub mod Emittable
pub mod Emitted
pub mod Commands
pub mod Rest
pub mod Stream
