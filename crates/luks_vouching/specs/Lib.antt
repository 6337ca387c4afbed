pub mod Composed
pub mod Cut
pub mod Pieces
pub mod Tried
pub mod Work
pub mod Vouched
pub mod Faults
