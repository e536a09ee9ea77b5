pub mod Growing
pub mod NetPins
mod SpanSteps
mod Flags
pub mod SameSpans
pub mod BandPins
pub mod Banded
