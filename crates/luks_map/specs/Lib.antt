pub mod Texts
pub mod Rows
pub mod Luks1Rows
pub mod Luks2Rows
pub mod UnderwayRows
pub mod Drawing
pub mod Map
