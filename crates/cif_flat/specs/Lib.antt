pub mod Sound
pub mod Refusing
pub mod Calling
pub mod Naming
pub mod Meeting
pub mod Labelling
pub mod Walking
