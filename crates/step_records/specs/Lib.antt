-- What the contracts of this crate cite.
pub mod Block
pub mod Bodies
pub mod Reading
pub mod Text
pub mod Writing
