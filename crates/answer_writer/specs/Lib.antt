pub mod AnswerWriting
pub mod RoundTrips
