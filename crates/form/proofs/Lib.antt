pub mod BorrowingCases
pub mod BorrowingLaws
pub mod CellLaws
pub mod ClassLaws
pub mod ShiftLaws
