pub mod BufferFacts
pub mod NumberFacts
pub mod PlanFacts
pub mod AskedFacts
