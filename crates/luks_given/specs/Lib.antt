pub mod Given
pub mod Parts
pub mod PartProps
pub mod Plan
pub mod Planned
pub mod PlanProps
pub mod Askings
