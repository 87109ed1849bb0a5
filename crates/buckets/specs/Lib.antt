pub mod InsideBuckets
pub mod InsideChains
pub mod InsideTrees
