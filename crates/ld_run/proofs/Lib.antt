pub mod Says
mod Weights
