pub mod Outcome
pub mod LongInput
