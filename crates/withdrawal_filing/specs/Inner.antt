-- Definitions for the contracts of inner functions. What the tiers are does not rest on them.
pub mod FiledLimits
