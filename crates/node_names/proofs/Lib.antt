mod Alphabet
mod Packing
pub mod Drawing
pub mod Distinct
mod NameSets
