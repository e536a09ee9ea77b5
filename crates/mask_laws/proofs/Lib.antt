mod Decided
mod Ordered
mod Classes
mod Squares
mod Networks
pub mod SameSquares
mod Judged
