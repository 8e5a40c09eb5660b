pub mod Terms
pub mod Faults
