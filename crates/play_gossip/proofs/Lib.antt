-- The lemmas of this crate.
mod NameLists
