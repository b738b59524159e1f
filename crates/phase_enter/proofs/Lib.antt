mod Elements
mod Growing
mod Covering
mod Joining
mod Finishing
mod Ending
