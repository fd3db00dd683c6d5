pub mod Frames
pub mod Look
pub mod Point
pub mod SecondList
