pub mod Cornered
pub mod Framed
