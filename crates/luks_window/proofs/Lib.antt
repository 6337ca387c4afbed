pub mod WindowFacts
