pub mod FaultTexts
pub mod Layout
pub mod Backup
pub mod Standings
pub mod Restored
pub mod Compared
pub mod Whole
pub mod Counting
