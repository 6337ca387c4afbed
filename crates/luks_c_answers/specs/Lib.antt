pub mod Asked
pub mod Buffers
pub mod ChoiceAsked
pub mod EditAsked
pub mod Numbers
pub mod Plans
pub mod Uses
