-- Definitions for the contracts of inner functions. What a condition means does not rest on them.
pub mod Sums
pub mod Borrowed
