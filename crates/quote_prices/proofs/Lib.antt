pub mod PriceLaws
pub mod RoundingLaws
pub mod OperationLaws
pub mod StepLaws
pub mod AlongLaws
pub mod BetweenLaws
pub mod PriceCases
