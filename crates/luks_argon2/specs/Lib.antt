pub mod Argon2
pub mod Blake2b
pub mod Hasher
pub mod Indexing
pub mod VariableHash
pub mod BlockCompression
pub mod Memory
pub mod Laws
