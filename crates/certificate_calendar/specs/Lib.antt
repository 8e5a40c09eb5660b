pub mod Dates
pub mod Inner
