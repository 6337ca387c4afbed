pub mod AppendFacts
pub mod ObjectFacts
pub mod RegionFacts
