pub mod VerdictLaws
pub mod AcceptedLaws
pub mod ReadLaws
pub mod ReadingLaws
pub mod EmptyLaws
