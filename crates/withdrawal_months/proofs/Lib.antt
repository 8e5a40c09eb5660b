pub mod EntryLaws
pub mod PathLaws
pub mod LevelLaws
