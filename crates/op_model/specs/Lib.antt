pub mod Names
pub mod Ops
pub mod Noting
pub mod Running
