mod BandPins
mod Stubs
mod AllPins
mod Fitted
