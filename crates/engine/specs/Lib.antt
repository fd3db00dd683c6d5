pub mod Outcome
pub mod Packing
pub mod OneTrial
