-- Definitions for the contracts of inner functions.
pub mod Said
