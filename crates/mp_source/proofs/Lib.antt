mod Members
mod Placed
mod Standing
mod Judged
mod Verdict
mod Existing
