pub mod AllFacts
pub mod Luks1Facts
pub mod SteeringFacts
mod SlotFacts
