pub mod Alike
pub mod Faults
pub mod Metadata
pub mod Tallies
pub mod Trials
pub mod Turned
