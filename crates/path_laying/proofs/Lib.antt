mod BandTaps
mod Emptied
mod Crossed
mod Raised
