pub mod Runs
pub mod Laws
pub mod Room
pub mod Conflict
