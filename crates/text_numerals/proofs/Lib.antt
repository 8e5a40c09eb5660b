pub mod NumeralLaws
pub mod LineLaws
