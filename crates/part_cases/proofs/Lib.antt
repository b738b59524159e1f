mod Runs
mod Numbered
