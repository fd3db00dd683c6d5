pub mod Outcomes
pub mod Inputs
pub mod Questions
pub mod Trials
pub mod Packing
pub mod One
