-- Definitions for the contracts of inner functions. What a record means does not rest on them.
-- Definitions for the contracts of inner functions. What a verdict means does not rest on them.
pub mod Scans
pub mod Repetitions
