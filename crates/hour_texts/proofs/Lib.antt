pub mod Numbers
pub mod Values
pub mod Writing
pub mod Contracts
