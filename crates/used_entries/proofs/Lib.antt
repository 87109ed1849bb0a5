pub mod Cancelled
pub mod Laws
pub mod Sites
