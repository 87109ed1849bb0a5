pub mod Headers
pub mod InsideSteps
pub mod Meaning
