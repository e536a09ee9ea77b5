pub mod Connected
pub mod Apart
pub mod Covering
pub mod Gaps
