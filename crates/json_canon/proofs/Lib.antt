pub mod Units
pub mod OrderLemmas
pub mod Sorting
pub mod Members
pub mod Inserting
pub mod ReadingBack
