mod Examples
pub mod Once
pub mod Entries
pub mod Graph
pub mod Ids
pub mod PlainNames
pub mod Gathering
pub mod Readout
pub mod Properties
pub mod PlainNodes
pub mod NoLabels
pub mod Determined
pub mod Proved
