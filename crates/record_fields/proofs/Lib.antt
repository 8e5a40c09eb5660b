pub mod ByteLaws
pub mod RecordLaws
pub mod SearchLaws
pub mod FirstLaws
