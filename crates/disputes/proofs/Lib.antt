pub mod Answers
pub mod Found
pub mod Meaning
pub mod SuppliedFields
