pub mod Opened
pub mod Passphrases
