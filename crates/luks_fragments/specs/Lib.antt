pub mod Fragments
pub mod Kinds
pub mod Levels
pub mod Made
pub mod Objects
