pub mod Cut
pub mod Windows
