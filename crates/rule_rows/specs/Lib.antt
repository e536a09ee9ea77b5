pub mod Firsts
pub mod Sides
pub mod Copies
pub mod Channels
pub mod Gaps
pub mod Gates
pub mod Nears
pub mod Closed
