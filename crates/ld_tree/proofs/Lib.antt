pub mod Searches
pub mod ViewLemmas
pub mod Builds
pub mod Walks
