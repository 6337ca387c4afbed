pub mod HeaderFacts
pub mod TextFacts
