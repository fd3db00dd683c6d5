pub mod Trials
pub mod Underway
