pub mod Statement
pub mod Lines
pub mod Places
pub mod Written
pub mod Blocks
