pub mod NumberLaws
pub mod PromiseLaws
pub mod RowLaws
pub mod SizeLaws
pub mod TotalLaws
