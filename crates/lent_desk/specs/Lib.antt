pub mod Entries
pub mod Sequence
