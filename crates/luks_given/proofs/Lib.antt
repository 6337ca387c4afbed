pub mod PlanFacts
pub mod PartFacts
mod AskingFacts
mod PlayFacts
mod PlannedFacts
