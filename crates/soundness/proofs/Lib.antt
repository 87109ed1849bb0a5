pub mod Meaning
pub mod Opposite
pub mod Sizes
pub mod Tests
