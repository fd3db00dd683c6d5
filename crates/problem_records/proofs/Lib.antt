pub mod Leads
pub mod Tables
pub mod QuestionTables
pub mod ReadProblem
pub mod InForce
pub mod LeadTables
