pub mod OnTheWay
pub mod Log
pub mod Parts
pub mod Summing
pub mod Uses
