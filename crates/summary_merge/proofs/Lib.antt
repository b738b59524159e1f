pub mod Moves
pub mod Earlier
pub mod Ranges
