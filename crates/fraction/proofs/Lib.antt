pub mod EnclosureLaws
pub mod SignedLaws
