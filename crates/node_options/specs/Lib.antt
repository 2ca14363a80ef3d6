pub mod Told
pub mod Given
pub mod Settings
pub mod Limits
pub mod Addresses
pub mod Words
pub mod Peers
