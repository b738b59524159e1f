pub mod Maps
pub mod GraphLemmas
pub mod Logs
pub mod Once
pub mod Pairs
pub mod Rows
