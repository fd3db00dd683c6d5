pub mod Tables
pub mod Ends
pub mod Rows
pub mod Rounds
pub mod Steps
