-- Definitions for the contracts of inner functions. What the promise says does not rest on them.
pub mod Walks
