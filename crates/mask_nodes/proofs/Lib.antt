mod Placing
mod Ending
mod Bordering
mod ChannelsMade
