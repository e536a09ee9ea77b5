mod Clearing
mod Having
mod Facings
mod Spaces
mod Partings
