pub mod AfterFacts
pub mod AlikeFacts
pub mod AmendFacts
mod CopyFacts
mod ErasedFacts
mod GapFacts
mod GivenFacts
mod KeptAnswers
mod KeptFacts
mod LeftoverFacts
pub mod LikeFacts
mod MetadataFacts
pub mod OpenFacts
mod OpenedFacts
pub mod OwnFacts
mod DerivedFacts
pub mod OpensFacts
pub mod PlaceFacts
pub mod RefusalFacts
pub mod SealFacts
pub mod ToldFacts
pub mod TornFacts
pub mod TouchedFacts
pub mod UuidFacts
mod UniqueFacts
pub mod VolumeFacts
pub mod SoundCopyFacts
pub mod AmendedFacts
pub mod ValuedFacts
pub mod AmendedAnswers
