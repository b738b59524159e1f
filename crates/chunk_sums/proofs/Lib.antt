pub mod Told
pub mod Beside
