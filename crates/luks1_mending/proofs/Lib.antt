pub mod MeetFacts
pub mod TextFacts
pub mod OrderFacts
pub mod KeptFacts
pub mod KeptSetFacts
pub mod MendedFacts
pub mod SignFacts
pub mod HeaderFacts
