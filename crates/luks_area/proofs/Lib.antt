pub mod Cutting
pub mod Increasing
pub mod Scans
pub mod DeviceFacts
pub mod RangeFacts
