pub mod InsideBills
pub mod InsideReading
