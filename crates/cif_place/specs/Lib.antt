pub mod Placing
pub mod Turning
pub mod Shaping
pub mod Laws
pub mod Pointing
