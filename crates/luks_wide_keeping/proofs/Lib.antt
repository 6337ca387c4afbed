pub mod LayoutFacts
pub mod CopyFacts
pub mod PlacesFacts
pub mod StandingFacts
pub mod MadeFacts
pub mod RestoredFacts
