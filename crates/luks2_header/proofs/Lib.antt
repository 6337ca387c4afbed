pub mod BinaryHeaderFacts
pub mod BinaryHeaderWriting
mod BothCopiesFacts
pub mod ChoiceFacts
pub mod ChosenCopyFacts
pub mod CopyFacts
pub mod SecondCopyFacts
pub mod SoundnessFacts
pub mod UuidFacts
