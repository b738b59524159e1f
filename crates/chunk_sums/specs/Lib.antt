pub mod Summing
pub mod Views
