pub mod InsideDates
