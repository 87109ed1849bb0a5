pub mod Acceptable
pub mod Answers
pub mod Booking
pub mod Calls
pub mod Guarantee
pub mod InsideKept
pub mod InsidePasses
