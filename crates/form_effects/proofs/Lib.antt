mod Entries
mod Gathering
mod Targets
mod Jumping
mod Indices
