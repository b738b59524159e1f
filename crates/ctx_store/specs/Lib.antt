pub mod Index
pub mod Seen
pub mod Stored
pub mod View
pub mod Stops
