pub mod Ring
pub mod Kept
pub mod Looking
pub mod Holding
pub mod Taking
pub mod Steps
pub mod Collecting
