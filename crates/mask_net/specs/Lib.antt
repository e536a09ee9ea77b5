pub mod Masks
pub mod Laws
pub mod SizeLine
