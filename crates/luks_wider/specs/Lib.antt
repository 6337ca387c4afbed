pub mod Rows
pub mod Places
pub mod WideWalk
pub mod WideFaults
pub mod Accepted
pub mod Underways
pub mod Reencrypting
pub mod Wide
