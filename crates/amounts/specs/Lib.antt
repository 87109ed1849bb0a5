pub mod Amounts
pub mod InsideMagnitudes
pub mod InsideSaid
pub mod InsideSums
pub mod Replies
