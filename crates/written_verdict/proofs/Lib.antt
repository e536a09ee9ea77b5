mod OfKinds
mod Bodies
mod Sorts
mod Ruled
mod Verdict
mod Placing
