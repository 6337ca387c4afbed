pub mod PartFacts
pub mod WrittenFacts
