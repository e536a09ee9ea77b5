pub mod Strips
pub mod Touching
pub mod Changes
pub mod Swept
pub mod Missing
pub mod Steps
