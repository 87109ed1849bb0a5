pub mod CodeFields
pub mod Codes
pub mod FieldKinds
pub mod Kept
pub mod Rows
pub mod Texts
