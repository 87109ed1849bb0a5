pub mod Before
pub mod Laws
pub mod Meaning
pub mod Running
pub mod Sites
pub mod Trailer
