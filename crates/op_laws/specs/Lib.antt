pub mod Words
pub mod Own
pub mod Told
pub mod Sound
pub mod Exchanged
pub mod Laws
