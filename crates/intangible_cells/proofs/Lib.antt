pub mod FiledLaws
pub mod StartLaws
