pub mod Differing
pub mod Losing
pub mod Numbers
