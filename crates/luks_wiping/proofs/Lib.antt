pub mod ZeroFacts
