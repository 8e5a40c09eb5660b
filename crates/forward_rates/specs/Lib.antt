pub mod Forwards
pub mod Inner
