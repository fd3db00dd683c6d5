pub mod Tests
pub mod Refusing
pub mod ProblemHeader
pub mod Within
pub mod Near
pub mod Rewritten
