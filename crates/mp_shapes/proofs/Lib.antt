pub mod Finding
pub mod Firsts
pub mod Verdict
