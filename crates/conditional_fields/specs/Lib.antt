pub mod InsideRecords
