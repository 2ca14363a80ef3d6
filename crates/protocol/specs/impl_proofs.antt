pub mod Held
pub mod NameLists
