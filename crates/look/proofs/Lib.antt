pub mod Tables
pub mod SecondList
pub mod Looking
pub mod One
