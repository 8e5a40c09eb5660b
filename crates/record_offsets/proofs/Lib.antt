pub mod NoteLaws
pub mod CountingLaws
