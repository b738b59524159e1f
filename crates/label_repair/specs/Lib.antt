pub mod Renaming
pub mod Finished
pub mod Made
pub mod Shards
