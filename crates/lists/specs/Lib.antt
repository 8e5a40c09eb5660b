pub mod Ranges
pub mod Runs
pub mod Sums
pub mod Tables
