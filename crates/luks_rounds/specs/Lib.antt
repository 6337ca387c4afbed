pub mod Pair
pub mod Quad
pub mod Wide
