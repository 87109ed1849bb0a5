pub mod Chunks
pub mod Laws
pub mod Meaning
pub mod Said
