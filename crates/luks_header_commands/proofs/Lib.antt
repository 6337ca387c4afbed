pub mod TargetFacts
pub mod ConvertFacts
pub mod RebuildFacts
pub mod TryingFacts
pub mod SearchingFacts
