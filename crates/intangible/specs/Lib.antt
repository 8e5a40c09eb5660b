pub mod RollingTerms
pub mod RolledMonths
pub mod Exact
pub mod Run
pub mod Bounded
pub mod Inner
