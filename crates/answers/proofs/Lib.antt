pub mod AnswerLaws
pub mod VerdictLaws
