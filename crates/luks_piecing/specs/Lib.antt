pub mod Given
pub mod Pieced
