pub mod Keys
pub mod Maps
pub mod Labels
pub mod NodeMap
pub mod AsTrees
pub mod Walk
pub mod Generating
pub mod DueForm
