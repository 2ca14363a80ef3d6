pub mod Accepting
pub mod Aloft
pub mod Flights
pub mod Following
pub mod Posting
pub mod Refusing
pub mod Stepping
