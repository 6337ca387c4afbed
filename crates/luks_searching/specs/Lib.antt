pub mod Fields1
pub mod Found1
pub mod Headed
