mod Glued
mod Reached
mod Heights
mod Held
mod Added
mod Metal
mod Loose
