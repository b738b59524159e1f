mod Turns
mod Into
mod Only
