pub mod FactorLaws
pub mod PlaceLaws
pub mod StandingLaws
pub mod KeptLaws
pub mod ChangeLaws
pub mod OpeningLaws
