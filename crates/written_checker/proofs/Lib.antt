mod Ruled
mod Keeping
mod Judging
