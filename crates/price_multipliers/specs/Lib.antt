pub mod Multipliers
pub mod Inner
