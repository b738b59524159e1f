pub mod Folds
pub mod Order
pub mod Put
pub mod Owned
pub mod Step
pub mod Whole
pub mod Shards
pub mod Conflicts
pub mod Chunks
mod Examples
