pub mod Keys
pub mod Lifting
pub mod Sharing
pub mod Shares
pub mod Results
