pub mod Gain
pub mod Tiers
pub mod Survival
pub mod Reached
pub mod MonthSurvival
pub mod Inner
