pub mod Carried
pub mod Delimiters
pub mod Held
pub mod Listed
pub mod Merging
