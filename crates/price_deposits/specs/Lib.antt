pub mod DepositTerms
pub mod Inner
