pub mod Run
pub mod Numbers
