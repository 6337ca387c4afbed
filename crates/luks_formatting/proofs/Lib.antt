mod AheadFacts
mod FaultFacts
pub mod EncryptingFacts
pub mod GivenFacts
pub mod NewPlanFacts
pub mod NewHeader1Facts
pub mod Formatted1Facts
pub mod Written1Facts
pub mod NewHeader2Facts
pub mod TextLengthFacts
pub mod MetadataFacts
pub mod Keyslot2Facts
pub mod Formatted2Facts
pub mod Written2Facts
