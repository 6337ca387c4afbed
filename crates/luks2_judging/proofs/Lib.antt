mod AreaFacts
mod ChosenFacts
pub mod DeedFacts
pub mod DigestFacts
pub mod EditedFacts
mod EncodedFacts
mod GivenFacts
mod JudgedFacts
pub mod KeyAreaFacts
pub mod KeyFacts
pub mod KeyslotFacts
mod LastFacts
mod NeedFacts
mod NumberFacts
pub mod OpenerFacts
mod ReadFacts
mod RoomFacts
mod SaltFacts
mod StripeFacts
mod TakenFacts
mod TokenFacts
pub mod UnkeyedFacts
