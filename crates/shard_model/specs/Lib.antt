pub mod Numbered
pub mod Renamed
pub mod Joined
pub mod Own
