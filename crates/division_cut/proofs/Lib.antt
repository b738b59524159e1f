pub mod Counts
pub mod Many
pub mod Standing
pub mod Found
pub mod Turned
pub mod Rounds
