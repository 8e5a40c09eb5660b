pub mod Starred
pub mod Hundredths
pub mod Filings
