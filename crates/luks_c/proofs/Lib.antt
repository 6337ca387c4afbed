pub mod MatchFacts
pub mod OpenFacts
pub mod PlanFacts
pub mod TokenFacts
