pub mod FoundFacts
pub mod MixedFacts
pub mod PiecedFacts
pub mod ResultFacts
pub mod SizeFacts
