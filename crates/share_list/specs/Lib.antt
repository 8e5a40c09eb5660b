pub mod Split
pub mod Outcomes
