-- Definitions for the contracts of inner functions. What withdrawals and survival are does not rest on them.
pub mod Incentives
pub mod TierArrays
pub mod Levels
