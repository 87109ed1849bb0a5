pub mod Along
pub mod Certified
pub mod Chosen
pub mod Conditions
pub mod Laws
pub mod Meaning
