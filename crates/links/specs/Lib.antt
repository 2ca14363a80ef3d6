pub mod EndText
pub mod Counting
pub mod Pumping
pub mod Draining
pub mod Tape
pub mod Metering
