pub mod Numbers
pub mod Linking
pub mod Classed
