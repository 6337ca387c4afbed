pub mod Typed
pub mod Sided
