pub mod InsideBytes
pub mod InsidePut
pub mod Lines
