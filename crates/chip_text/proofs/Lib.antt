mod Plain
mod Few
mod Chips
