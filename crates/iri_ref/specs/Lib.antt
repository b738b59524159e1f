pub mod Dots
pub mod Parts
pub mod Resolve
pub mod Walk
