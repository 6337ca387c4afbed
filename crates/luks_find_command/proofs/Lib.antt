pub mod FragmentFacts
pub mod GoingOnFacts
pub mod LineFacts
pub mod SearchFacts
pub mod TellingFacts
pub mod UuidFacts
pub mod VolumeFacts
