pub mod Trials
pub mod Halves
pub mod Underway
