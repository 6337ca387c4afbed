pub mod AreaText
pub mod Decimal
pub mod Encoded
pub mod Number
pub mod Values
pub mod Arrays
pub mod NameSets
pub mod Names
