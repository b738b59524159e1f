pub mod Deals
pub mod Pools
pub mod Works
pub mod Workers
pub mod Gathers
