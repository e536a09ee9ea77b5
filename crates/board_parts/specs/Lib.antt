pub mod Numbers
pub mod Memory
