pub mod DigestFacts
pub mod HeadedFacts
pub mod LawFacts
