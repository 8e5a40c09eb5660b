pub mod Figures
pub mod Searches
