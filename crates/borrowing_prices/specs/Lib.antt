pub mod Exact
pub mod Run
pub mod Inner
