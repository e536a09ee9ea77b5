mod Reaching
mod Cutting
mod Finding
mod Telling
mod Joining
