pub mod Named
pub mod Meant
