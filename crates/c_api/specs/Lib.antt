-- What C sees of each answer.
pub mod Answers
