pub mod Order
pub mod Walking
pub mod RowFaults
pub mod AreaFaults
pub mod Accepting
pub mod Refusing
pub mod Deciding
mod ValueFacts
