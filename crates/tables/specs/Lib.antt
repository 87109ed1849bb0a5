pub mod Groups
pub mod InsideCodes
pub mod InsideRows
pub mod Tables
pub mod Types
