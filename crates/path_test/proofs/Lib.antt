mod Telling
mod Reductions
