pub mod Kept
pub mod Limits
