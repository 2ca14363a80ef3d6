pub mod Plum
pub mod Steps
pub mod Parts
pub mod Fits
pub mod Started
pub mod News
pub mod Rejoining
pub mod impl_proofs
