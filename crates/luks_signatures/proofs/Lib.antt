pub mod FirstFacts
pub mod FrontFacts
pub mod TableFacts
