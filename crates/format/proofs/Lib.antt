pub mod Blocks
pub mod Conditional
pub mod Meaning
pub mod Some
