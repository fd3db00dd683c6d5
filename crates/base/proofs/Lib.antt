pub mod Numbers
pub mod Filled
pub mod Lists
pub mod Copied
pub mod Decides
