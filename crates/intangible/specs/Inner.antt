-- Definitions for the contracts of inner functions. What the run and the exact figures are does not rest on them.
pub mod Month
