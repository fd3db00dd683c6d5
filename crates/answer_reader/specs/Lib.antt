pub mod Fields
pub mod AnswerReading
