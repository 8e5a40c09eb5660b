pub mod MonotoneLaws
pub mod ValueLaws
pub mod NotUpLaws
