pub mod StepLaws
pub mod DiscountLaws
pub mod TableLaws
