-- Definitions for the contracts of inner functions. What the shares are does not rest on them.
pub mod Rows
pub mod ShareRows
