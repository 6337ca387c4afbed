pub mod Sizes
pub mod Header2
pub mod SoundCopies
pub mod Selection
pub mod ChosenCopy
pub mod Written
pub mod NewUuid
