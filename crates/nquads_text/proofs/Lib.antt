pub mod Gaps
pub mod LineEnds
pub mod Puts
