pub mod Sum
pub mod Laws
