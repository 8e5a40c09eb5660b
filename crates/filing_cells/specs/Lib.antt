pub mod Conditions
pub mod CellVerdicts
pub mod ValidBorrowings
pub mod ValidCells
pub mod Balances
pub mod BorrowingConditions
pub mod BorrowingVerdicts
pub mod Inner
