pub mod Lasts
pub mod Names
pub mod Runs
pub mod Values
pub mod Waits
