pub mod Verdict
pub mod Answers
