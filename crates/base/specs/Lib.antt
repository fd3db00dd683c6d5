pub mod Numbers
pub mod Filled
pub mod Decides
