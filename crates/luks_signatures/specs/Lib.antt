pub mod Reencryption
pub mod Signatures
pub mod UseTexts
pub mod Views
