mod Agreeing
mod Unique
mod Telling
