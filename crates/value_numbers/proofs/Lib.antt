pub mod RowLaws
pub mod NumberLaws
pub mod TotalLaws
