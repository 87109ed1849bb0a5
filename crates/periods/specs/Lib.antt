pub mod InsideColumns
pub mod InsideChosen
pub mod InsideOriginals
pub mod InsideSizes
pub mod InsideSpans
pub mod Periods
