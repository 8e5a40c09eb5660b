pub mod ReplyLaws
pub mod ObeyLaws
pub mod OpenLaws
pub mod TextCases
pub mod CommandLaws
pub mod LineLaws
pub mod LineCases
