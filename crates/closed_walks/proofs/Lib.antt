pub mod Holding
pub mod ArcTables
pub mod Order
pub mod ClosedWalks
