pub mod ByteFacts
pub mod DiffusionFacts
pub mod PairHasherFacts
pub mod RowFacts
pub mod Sha1Facts
pub mod TurnFacts
pub mod WideFacts
