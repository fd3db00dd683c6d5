pub mod Tables
pub mod Gains
pub mod GainRound
pub mod Arcs
pub mod Order
