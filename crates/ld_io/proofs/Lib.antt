pub mod Turns
pub mod Repeats
pub mod FileLookup
