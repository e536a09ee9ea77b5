mod Telling
mod Entries
mod Paths
mod Counts
