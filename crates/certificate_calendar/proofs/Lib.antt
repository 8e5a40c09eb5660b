pub mod DateLaws
pub mod MonthLaws
