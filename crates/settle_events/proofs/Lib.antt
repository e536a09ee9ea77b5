mod Climbing
mod Passing
