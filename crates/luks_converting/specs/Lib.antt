pub mod ConvertFaults
pub mod Copied
pub mod Source
pub mod Converted
pub mod Outcome
pub mod Accepted
pub mod Slots
pub mod FaultTexts
