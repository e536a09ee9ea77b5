pub mod Ordered
pub mod Told
pub mod Laws
