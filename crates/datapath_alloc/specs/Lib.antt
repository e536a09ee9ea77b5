pub mod Spending
pub mod Progress
pub mod Noting
pub mod Shared
