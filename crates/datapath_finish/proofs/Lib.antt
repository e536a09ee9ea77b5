pub mod Ending
pub mod Finished
pub mod WholePath
pub mod PadNets
