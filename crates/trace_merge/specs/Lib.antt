pub mod Projection
pub mod Merging
pub mod FrameIds
pub mod Numbers
pub mod Held
pub mod Steps
pub mod Left
