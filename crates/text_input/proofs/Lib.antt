pub mod LineLaws
pub mod LineCases
