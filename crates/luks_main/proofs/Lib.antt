pub mod OutcomeFacts
pub mod StatusFacts
