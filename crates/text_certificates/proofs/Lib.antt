pub mod PrintingLaws
pub mod TextCases
pub mod FormLaws
pub mod TextLaws
pub mod ReadLaws
pub mod CellLineLaws
