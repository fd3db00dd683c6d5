pub mod Floor
pub mod Maps
pub mod Plans
pub mod Spans
pub mod Parts
