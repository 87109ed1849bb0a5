pub mod InsideBounds
pub mod InsideSiteTotals
pub mod InsideSums
pub mod Totals
