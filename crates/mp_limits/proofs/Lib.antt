pub mod Scans
pub mod Namings
pub mod Wide
pub mod Present
pub mod Limited
pub mod Seen
pub mod Crowded
