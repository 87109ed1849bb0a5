pub mod AllFields
pub mod OneField
pub mod OneLine
