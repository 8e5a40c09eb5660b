pub mod ListingLaws
pub mod TextCases
pub mod TotalLineLaws
pub mod LineCases
