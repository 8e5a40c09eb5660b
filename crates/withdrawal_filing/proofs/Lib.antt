pub mod FilingTierLaws
pub mod TierAnswerLaws
