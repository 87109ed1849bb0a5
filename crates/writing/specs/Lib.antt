pub mod Decimals
pub mod InsideWriting
