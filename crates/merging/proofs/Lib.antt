pub mod Sides
pub mod Later
pub mod Plans
pub mod Rows
pub mod Outcomes
pub mod Keeps
pub mod Passing
