-- Definitions for the contracts of inner functions. What a class means does not rest on them.
pub mod Classes
