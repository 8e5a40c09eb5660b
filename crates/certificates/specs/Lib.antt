pub mod Verdict
pub mod Filled
pub mod Promise
pub mod Inner
pub mod Sums
pub mod EachVerdict
