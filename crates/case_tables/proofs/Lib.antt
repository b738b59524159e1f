pub mod EveryCode
pub mod EveryDatatype
pub mod EveryKeyword
pub mod Gather
pub mod LookUp
pub mod Numbered
