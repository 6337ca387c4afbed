pub mod Hashed
pub mod Outcomes
pub mod Statuses
