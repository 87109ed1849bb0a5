pub mod Columns
pub mod InsideColumns
pub mod InsideRows
