pub mod TermsLaws
pub mod LevelLaws
pub mod PriceLaws
pub mod DiscountLaws
pub mod WalkLaws
pub mod ValueLaws
pub mod DepositPriceLaws
