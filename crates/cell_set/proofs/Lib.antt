mod Words
mod Seeking
mod Cells
