pub mod FitLaws
pub mod LentLaws
