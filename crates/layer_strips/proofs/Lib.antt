mod Bridging
mod Collected
mod Listing
mod Nexts
mod Meeting
mod Rows
mod Scheduling
