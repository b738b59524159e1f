pub mod Weighed
pub mod Views
pub mod Standing
pub mod Found
pub mod Turns
