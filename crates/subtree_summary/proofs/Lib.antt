pub mod AllTold
pub mod Logs
pub mod Parts
pub mod Joining
pub mod Used
