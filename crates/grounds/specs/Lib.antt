pub mod Tables
pub mod Latest
pub mod Reached
pub mod Rules
pub mod Turns
pub mod Rounds
pub mod Outcome
