pub mod Floor
pub mod Plans
