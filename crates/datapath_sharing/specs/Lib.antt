pub mod Asking
pub mod Sharing
