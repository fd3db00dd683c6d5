pub mod Marks
pub mod Spreading
