pub mod Covering
pub mod CutUp
mod Seeing
mod Tiling
mod Listing
mod Assembling
mod CutLemmas
