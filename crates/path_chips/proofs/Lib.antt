pub mod PadRows
mod GivenBits
mod Planning
