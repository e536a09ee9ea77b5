pub mod Bits
pub mod Tree
pub mod Sets
