pub mod Past
pub mod Span
pub mod Known
pub mod Held
