pub mod Rates
pub mod Inner
