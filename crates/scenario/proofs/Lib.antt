pub mod Inputs
pub mod Items
pub mod Numbers
pub mod Zips
