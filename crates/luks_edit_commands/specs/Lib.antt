pub mod Editing
pub mod EditAnswers
pub mod OtherUses
pub mod EditNotes
