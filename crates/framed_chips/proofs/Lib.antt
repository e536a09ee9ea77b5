mod Cornered
mod Framed
