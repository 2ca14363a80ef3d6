pub mod About
pub mod Fits
mod Lawful
pub mod LawfulRows
mod Requests
mod Walks
