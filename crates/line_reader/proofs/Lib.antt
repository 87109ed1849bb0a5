pub mod FieldLoop
pub mod Fields
pub mod Filled
pub mod Heads
pub mod Lines
pub mod Unread
