mod EachFacts
mod MemberFacts
pub mod NameFacts
mod RowFacts
mod EditFacts
pub mod KdfFacts
pub mod RemovalFacts
pub mod ErasureFacts
pub mod ReadingFacts
pub mod AdditionFacts
pub mod FreeNumberFacts
pub mod RoomFacts
pub mod ChangeFacts
mod SlotFacts
pub mod AmendFacts
pub mod NewVolumeFacts
mod MapFacts
mod StepFacts
mod AreaFacts
mod NewAreaFacts
mod LengthFacts
pub mod ConversionFacts
pub mod ConvertedTextFacts
pub mod SourceFacts
