pub mod Fold
pub mod Low
pub mod Small
pub mod Places
pub mod Rounds
pub mod Given
pub mod Lowering
pub mod Steps
