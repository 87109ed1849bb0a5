pub mod Accepted
pub mod InsideFits
pub mod Passing
