-- What the contracts of this crate cite.
pub mod Accepting
pub mod Following
pub mod FrameIds
pub mod Refusals
