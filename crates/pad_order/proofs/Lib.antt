mod Entries
mod Told
mod Placing
