pub mod Raw
pub mod Labels
pub mod Tags
pub mod Iris
