pub mod Finish
pub mod Strings
