pub mod Counts
pub mod Consistent
pub mod Contradictions
pub mod Contradicted
pub mod Walk
pub mod Hot
