pub mod Means
pub mod Cells
pub mod Inner
