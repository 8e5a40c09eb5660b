pub mod RecordVerdicts
pub mod Inner
