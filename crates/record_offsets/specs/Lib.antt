pub mod Counting
pub mod Inner
