pub mod TreeOrder
pub mod TotalOrder
pub mod Log
pub mod Views
pub mod Once
pub mod Merged
