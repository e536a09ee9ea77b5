mod Waking
mod Looking
mod Starting
