pub mod ConvertAnswers
pub mod KeepAnswers
pub mod RebuildAnswers
