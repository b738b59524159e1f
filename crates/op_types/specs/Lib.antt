pub mod View
pub mod Codes
pub mod Falls
pub mod SameName
