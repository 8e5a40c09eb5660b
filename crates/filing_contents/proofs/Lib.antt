pub mod AmountLaws
pub mod ArrayLaws
