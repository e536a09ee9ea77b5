pub mod Capped
pub mod Finding
pub mod Refusing
