pub mod Double
pub mod Language
pub mod Quad
