pub mod Draws
pub mod NodeName
pub mod NameFault
pub mod Ids
pub mod Same
pub mod Order
pub mod Limits
pub mod Slots
