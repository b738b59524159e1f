pub mod BranchView
pub mod Context
pub mod ContextCode
pub mod ContextView
pub mod Expansion
pub mod Same
pub mod Sorted
pub mod View
