pub mod Again
pub mod InsideHalves
pub mod Line
pub mod Reading
