pub mod Order
pub mod Carried
pub mod Steps
