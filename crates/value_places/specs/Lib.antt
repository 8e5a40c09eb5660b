pub mod PlaceTerms
pub mod HeldValues
pub mod Inner
pub mod RowTotals
