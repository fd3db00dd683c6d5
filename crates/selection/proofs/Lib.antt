pub mod Rows
pub mod Plans
pub mod Classes
pub mod Picks
pub mod RowPicks
pub mod Certificates
pub mod Requests
pub mod Suspended
