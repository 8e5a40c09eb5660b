pub mod PriceLines
pub mod Interpolation
pub mod Neighbours
