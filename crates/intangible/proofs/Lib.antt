pub mod EnclosureLaws
pub mod TermLaws
pub mod AmountLaws
pub mod WidthLaws
pub mod ResultLaws
pub mod RunLaws
