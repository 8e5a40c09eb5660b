pub mod ValueLaws
pub mod PromiseLaws
pub mod CallLaws
