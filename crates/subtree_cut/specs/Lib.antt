pub mod View
pub mod Results
pub mod Cursor
pub mod PlanCode
pub mod Choices
