pub mod Counted
pub mod UnderWayFacts
pub mod Ordered
pub mod Placed
pub mod Consistency
