pub mod Parts
pub mod Zeros
pub mod QuadLaws
pub mod Examples
