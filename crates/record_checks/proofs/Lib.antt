pub mod VerdictLaws
pub mod NotingLaws
pub mod ProgressLaws
pub mod MetLaws
pub mod RepetitionLaws
pub mod BitLaws
