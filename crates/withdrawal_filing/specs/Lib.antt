pub mod FilingTiers
pub mod Inner
pub mod TierAnswers
