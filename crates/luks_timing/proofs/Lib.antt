pub mod TimedFacts
pub mod SampleFacts
