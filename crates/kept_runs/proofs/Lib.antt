mod Colours
mod Painting
mod Growing
