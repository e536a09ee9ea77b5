mod Turns
mod Moments
