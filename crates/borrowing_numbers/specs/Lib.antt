pub mod Borrowed
pub mod Numbers
pub mod Promise
pub mod Inner
