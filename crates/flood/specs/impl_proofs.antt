pub mod Counted
pub mod FloodDelivers
pub mod FloodLaws
pub mod FloodSpread
pub mod FloodTakes
