pub mod Announced
pub mod Appended
pub mod Countings
pub mod Dashes
pub mod Delivering
pub mod Spreads
pub mod Texts
