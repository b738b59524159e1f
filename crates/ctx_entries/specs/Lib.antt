pub mod Answers
pub mod Left
pub mod Marks
pub mod Merge
pub mod View
