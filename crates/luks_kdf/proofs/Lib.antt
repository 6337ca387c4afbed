pub mod XorFacts
pub mod DerivationFacts
pub mod RowFacts
pub mod LaneFacts
pub mod DiffuseFacts
pub mod SplitterFacts
