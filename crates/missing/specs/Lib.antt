pub mod Wants
pub mod Timers
pub mod Slots
pub mod Missing
