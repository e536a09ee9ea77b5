pub mod Longest
pub mod SeenLayers
