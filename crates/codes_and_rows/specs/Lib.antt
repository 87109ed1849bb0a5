pub mod InsideFields
pub mod InsideNumbers
