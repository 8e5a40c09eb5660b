pub mod FactorLaws
