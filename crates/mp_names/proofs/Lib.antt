mod Entries
mod Earliest
mod Misuses
mod Naming
mod Rules
mod Supplies
mod Sorting
mod Definitions
