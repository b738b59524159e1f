pub mod Outcomes
pub mod View
pub mod Walked
pub mod Known
