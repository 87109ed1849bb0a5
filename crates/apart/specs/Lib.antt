pub mod InsideApart
pub mod InsideGathered
pub mod InsideSorting
