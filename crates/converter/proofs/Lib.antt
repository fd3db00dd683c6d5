pub mod Rows
pub mod Converted
pub mod Once
pub mod Same
pub mod Keeps
pub mod Steps
pub mod Answers
