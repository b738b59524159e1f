pub mod Outcome
pub mod Words
pub mod State
pub mod LocalExpansion
pub mod Definition
pub mod Creation
pub mod Process
