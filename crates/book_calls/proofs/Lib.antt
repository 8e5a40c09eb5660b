pub mod ChangingLaws
pub mod ChangeCases
