pub mod EditAnswerFacts
pub mod EditFacts
pub mod OtherUseFacts
mod FindingFacts
mod EditNoteFacts
