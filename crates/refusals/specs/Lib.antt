pub mod Answers
pub mod Check
pub mod Codes
pub mod InsideNumbers
pub mod InsideRead
pub mod InsideResults
pub mod Refusals
