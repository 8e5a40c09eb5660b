pub mod SheetLaws
pub mod BodyLaws
pub mod TierLaws
