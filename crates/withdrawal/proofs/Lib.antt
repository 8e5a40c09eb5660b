pub mod SurvivalLaws
pub mod GainLaws
pub mod IncentiveLaws
pub mod TierLaws
pub mod HighestLaws
pub mod FallingLaws
pub mod HeldLaws
pub mod MonthSurvivalLaws
