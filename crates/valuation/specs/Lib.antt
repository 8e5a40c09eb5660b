pub mod Exact
pub mod Promise
