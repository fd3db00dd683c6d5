pub mod Plans
pub mod Outcome
