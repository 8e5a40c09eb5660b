pub mod Verdict
pub mod Readings
pub mod RequiredSheets
pub mod EmptyContents
