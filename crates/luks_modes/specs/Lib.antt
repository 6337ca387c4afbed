pub mod Xts
pub mod Halves
pub mod Blocks
pub mod Units
pub mod Cbc
pub mod Vectors
