pub mod PlaceTermsLaws
pub mod HeldLaws
pub mod FlatLaws
pub mod RowLaws
pub mod TotalLaws
