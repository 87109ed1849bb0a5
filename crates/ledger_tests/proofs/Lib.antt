pub mod Naming
pub mod Opposed
pub mod Order
pub mod Resumed
pub mod Stored
