pub mod Chosen
pub mod Certificates
pub mod Suspended
