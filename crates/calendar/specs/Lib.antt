pub mod Calendar
pub mod InsideDates
pub mod InsideFirstDays
pub mod Periods
