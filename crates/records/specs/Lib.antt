pub mod Decoded
pub mod Stamps
pub mod Refusals
pub mod Classes
pub mod ProblemHeader
