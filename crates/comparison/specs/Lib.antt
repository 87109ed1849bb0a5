pub mod InsideDates
pub mod InsideDisputes
pub mod InsideReadings
