-- What the contracts of this crate cite.
pub mod Groups
pub mod Replaying
