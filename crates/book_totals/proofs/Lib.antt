pub mod ChangedSumLaws
