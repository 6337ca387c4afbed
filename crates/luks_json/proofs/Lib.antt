pub mod AreaTexts
pub mod AreaKinds
pub mod Decimals
pub mod Numbers
pub mod Encodings
pub mod NoZero
pub mod NameLists
pub mod ArrayTexts
