pub mod InsideBounds
pub mod InsideHeld
pub mod InsideResults
pub mod InsideSteps
pub mod Ledger
pub mod Replies
