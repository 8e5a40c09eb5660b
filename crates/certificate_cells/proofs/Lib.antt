pub mod ListingLaws
pub mod MeanLaws
pub mod SearchLaws
pub mod ValueLaws
