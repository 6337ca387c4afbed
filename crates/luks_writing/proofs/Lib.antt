pub mod CopyFacts
pub mod ChecksumFacts
pub mod AreaFacts
pub mod ClearedFacts
pub mod CountFacts
pub mod MadeInOrderFacts
