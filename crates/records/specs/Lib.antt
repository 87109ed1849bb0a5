pub mod InsideLineEnds
pub mod InsidePlacedFields
pub mod InsidePlacedLines
pub mod Records
pub mod Text
