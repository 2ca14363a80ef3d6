pub mod Answers
pub mod Kept
pub mod Owned
pub mod Plain
pub mod Slots
pub mod State
pub mod Stirring
pub mod Wire
