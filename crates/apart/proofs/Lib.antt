pub mod Gathering
pub mod Laws
pub mod Sorting
