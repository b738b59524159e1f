pub mod Names
pub mod Kept
pub mod Renamed
pub mod OwnConflicts
pub mod Parts
pub mod Lists
pub mod Finished
