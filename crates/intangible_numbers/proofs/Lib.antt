pub mod FactorLaws
pub mod CellLaws
pub mod NumberLaws
pub mod PromiseLaws
