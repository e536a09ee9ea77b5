mod Pieces
mod Reading
mod Whole
