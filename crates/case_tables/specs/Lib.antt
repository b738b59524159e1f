pub mod Code
pub mod Datatype
pub mod Keyword
pub mod Rows
pub mod Shape
