mod Entries
mod Settling
mod Advancing
mod Showing
mod Making
mod Placing
mod KindValues
mod Seating
