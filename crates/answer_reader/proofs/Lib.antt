pub mod ByClass
pub mod Passing
pub mod Padding
pub mod Heads
pub mod Reading
pub mod Judging
pub mod Meaning
