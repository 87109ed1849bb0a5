pub mod Conditional
pub mod Format
pub mod Meaning
