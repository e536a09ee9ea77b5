mod EachEntry
pub mod Ends
mod SlicePins
mod SliceStubs
mod SliceSpans
pub mod SliceLayout
pub mod Growth
mod Found
