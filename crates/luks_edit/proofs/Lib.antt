pub mod AllowedMemory
pub mod OpeningFacts
pub mod RowFacts
pub mod SecretFacts
