pub mod Utf16
pub mod Canonical
pub mod Lent
pub mod Laws
