pub mod MetadataFacts
pub mod OptionFacts
pub mod TallyFacts
