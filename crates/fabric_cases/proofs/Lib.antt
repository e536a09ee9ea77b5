mod Copied
mod Fabrics
