pub mod Laws
pub mod Marks
pub mod Slashes
pub mod Walk
pub mod Forms
