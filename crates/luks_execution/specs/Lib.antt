pub mod Executed
pub mod Parted
pub mod AnswerValue
