pub mod Filling
pub mod Templates
pub mod Leaves
pub mod Walking
pub mod Moving
