pub mod Sheets
pub mod Numbers
pub mod Promise
pub mod Inner
