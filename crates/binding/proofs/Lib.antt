pub mod Listing
pub mod Turns
pub mod Round
pub mod Reasons
pub mod Unique
pub mod Keeps
pub mod InForce
