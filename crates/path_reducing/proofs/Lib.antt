mod Smaller
mod Any
