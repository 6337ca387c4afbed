pub mod Xor
pub mod Derivation
pub mod Splitter
pub mod Turns
pub mod Lengths
pub mod Names
pub mod KeyslotNames
