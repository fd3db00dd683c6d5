pub mod Marks
pub mod Existence
pub mod One
