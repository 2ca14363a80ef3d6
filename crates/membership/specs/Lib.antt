pub mod Membership
pub mod Event
pub mod Blocks
pub mod Table
pub mod Draft
pub mod Laws
