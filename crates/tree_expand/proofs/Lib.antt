pub mod Steps
mod Walks
mod Known
pub mod PlaceLemmas
