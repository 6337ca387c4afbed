pub mod Digests
pub mod Found
pub mod Mixed
