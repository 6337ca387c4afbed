pub mod Blocks
pub mod Faults
pub mod Finding
pub mod Readable
pub mod Starts
pub mod Telling
