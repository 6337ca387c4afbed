pub mod BesideFacts
pub mod CheckFacts
pub mod EndFacts
pub mod ExitFacts
pub mod FileFacts
pub mod FirstLineFacts
pub mod FormatFacts
pub mod Fronts
pub mod KeyFacts
pub mod NotUnderway
pub mod OpenFacts
mod UnderwayOpening
pub mod StandingFacts
pub mod UnderwayFacts
mod ShowFacts
mod SearchFacts
pub mod ReencryptionFacts
