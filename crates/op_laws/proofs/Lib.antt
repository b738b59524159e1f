pub mod SameName
pub mod Used
pub mod Numbers
pub mod Known
pub mod Unused
pub mod Runs
pub mod Gathered
pub mod Divided
pub mod Numbered
pub mod Apart
pub mod Read
pub mod Told
pub mod Sound
pub mod FirstConflict
mod Examples
pub mod Added
pub mod Owned
pub mod Exchanged
mod Division
