mod Checking
mod Keeping
