pub mod Timed
pub mod Costs
