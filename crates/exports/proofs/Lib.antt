pub mod ExportedLaws
pub mod ConvertedLaws
pub mod ChangedLaws
pub mod ShownCases
pub mod NumberCases
pub mod PricedLaws
