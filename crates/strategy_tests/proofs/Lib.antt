pub mod Counting
pub mod Certified
pub mod Variables
pub mod RowStrategy
pub mod Seconds
