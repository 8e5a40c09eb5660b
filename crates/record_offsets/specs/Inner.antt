-- Definitions for the contracts of inner functions. What a record means does not rest on them.
pub mod Notes
