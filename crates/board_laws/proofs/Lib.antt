mod Runs
mod Resets
mod Chips
