mod Ported
mod Moved
