pub mod Lists
pub mod Regions
pub mod TwoRuns
pub mod RightAnswers
pub mod LastReached
pub mod Places
pub mod Results
pub mod InOrder
pub mod Unreached
pub mod PiecesInRegions
pub mod Beside
pub mod Cut
pub mod KeysApart
pub mod Few
pub mod Standing
pub mod LegalTest
mod Theorems
