mod Padded
mod Carried
