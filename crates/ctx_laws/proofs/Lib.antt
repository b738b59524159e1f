mod Examples
pub mod Merging
pub mod Nothing
pub mod Agreement
pub mod Lookups
pub mod Keeping
pub mod Original
pub mod Turns
pub mod Fuel
pub mod Protection
