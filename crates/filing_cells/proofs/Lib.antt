pub mod ConditionLaws
pub mod CellVerdictLaws
pub mod SumLaws
pub mod BorrowingLaws
