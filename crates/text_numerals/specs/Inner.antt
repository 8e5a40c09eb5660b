-- Definitions for the contracts of inner functions. What a line says does not rest on them.
pub mod Fields
