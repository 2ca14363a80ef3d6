mod Counts
mod Giving
mod Writing
