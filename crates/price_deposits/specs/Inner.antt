-- Definitions for the contracts of inner functions. What the promise says does not rest on them.
pub mod Levels
pub mod Prices
pub mod Values
pub mod Walked
