pub mod Bytes
pub mod Header1
pub mod Faults
pub mod FaultTexts
pub mod Written
