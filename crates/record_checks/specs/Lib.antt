pub mod Inner
pub mod Members
