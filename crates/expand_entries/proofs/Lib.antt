mod Plain
mod Types
