pub mod Words
pub mod Out
pub mod Lines
pub mod Stops
pub mod Promise
