pub mod InsideAmountReadings
pub mod InsideLeadingBytes
pub mod InsideReadings
