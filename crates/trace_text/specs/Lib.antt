pub mod Collected
pub mod Counts
pub mod Events
pub mod Ends
pub mod Names
pub mod Packets
pub mod Parts
pub mod Step
