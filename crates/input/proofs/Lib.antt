pub mod Keeping
pub mod Coming
pub mod Reading
pub mod Taking
