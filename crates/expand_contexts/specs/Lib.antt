pub mod View
pub mod Types
pub mod Memo
