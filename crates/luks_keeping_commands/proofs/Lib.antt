pub mod NarrowFacts
pub mod Lifted
pub mod BackupFacts
pub mod RestoreFacts
pub mod DifferenceFacts
pub mod KeyFacts
pub mod KeptFacts
pub mod CompareFacts
mod UseFacts
