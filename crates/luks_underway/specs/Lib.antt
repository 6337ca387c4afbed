pub mod Members
pub mod Reencryptions
pub mod Segments
pub mod Slots
pub mod Requirements
pub mod Sides
pub mod Kinds
