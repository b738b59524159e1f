pub mod Carried
pub mod Puts
mod Entries
