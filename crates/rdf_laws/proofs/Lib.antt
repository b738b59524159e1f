mod Needed
mod Ranges
