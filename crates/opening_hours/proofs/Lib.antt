pub mod Lists
pub mod Minutes
pub mod OpeningHours
