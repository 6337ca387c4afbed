pub mod Faults
pub mod Headers
pub mod Beside
pub mod Opening
pub mod Trying
pub mod Volume
