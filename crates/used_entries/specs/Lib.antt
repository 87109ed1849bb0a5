pub mod InsideKeyed
pub mod InsideNamed
pub mod InsideSearches
pub mod InsideSited
