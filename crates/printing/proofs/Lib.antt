pub mod Appending
pub mod Copy
pub mod Decimals
pub mod Printing
