pub mod AnswerLaws
pub mod DecimalLaws
pub mod LineLaws
