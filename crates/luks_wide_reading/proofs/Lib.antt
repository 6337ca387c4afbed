pub mod WideUnread
pub mod UnderwayPlans
pub mod VolumeFacts
