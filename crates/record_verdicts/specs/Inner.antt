-- Definitions for the contracts of inner functions. What a verdict means does not rest on them.
pub mod PlainVerdicts
pub mod SoundRecords
