pub mod Entries
pub mod OwnAnswers
pub mod Pipe
pub mod ClassHolds
pub mod DeskCalls
pub mod Called
