pub mod Fit
pub mod Filed
