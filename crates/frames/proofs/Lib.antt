mod Agree
mod BodyFaults
mod Counts
mod Cuttings
mod Decoded
mod Encoded
mod FieldsAgree
mod FrameAgrees
mod ListsAgree
mod NameReading
pub mod Putting
mod RowsAgree
mod SameFields
mod Sizes
mod Times
mod Streams
