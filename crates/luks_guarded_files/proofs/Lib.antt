pub mod Compared
pub mod Remembered
