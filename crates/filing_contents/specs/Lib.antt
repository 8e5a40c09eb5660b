pub mod Contents
pub mod Valid
pub mod Amounts
pub mod Sheets
pub mod SheetRows
