-- The lemmas of this crate.
mod LoadRow
