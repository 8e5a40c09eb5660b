pub mod Scales
pub mod Terms
pub mod Exact
pub mod Rounding
pub mod Run
pub mod Bounded
pub mod EnclosedValues
pub mod Inner
