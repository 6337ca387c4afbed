pub mod PairHasher
pub mod Turns
