mod ChMaj
mod Nested
mod Rotations
mod Sha1Window
mod VectorFacts
mod WideWindow
pub mod FirstWindow
pub mod PairFacts
pub mod QuadFacts
