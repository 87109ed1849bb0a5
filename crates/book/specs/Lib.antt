pub mod InsideBook
pub mod InsideCalls
