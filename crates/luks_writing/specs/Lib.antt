pub mod Copy
pub mod TwoDevices
pub mod Cleared
pub mod MadeInOrder
