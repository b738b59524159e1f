pub mod Joins
pub mod Sums
pub mod Shards
pub mod Conflicts
