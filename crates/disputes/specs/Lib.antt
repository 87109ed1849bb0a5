pub mod Disputes
pub mod InsideHeldEntry
