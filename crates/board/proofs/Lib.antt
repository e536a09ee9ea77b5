mod Widths
mod Faces
mod Puts
mod Given
mod Ready
mod Loops
mod Words
pub mod SwappedLoops
pub mod Calls
mod Clocks
mod Plans
mod Verdict
mod Existence
