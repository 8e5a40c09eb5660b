pub mod Listing
pub mod BorrowingListing
pub mod TotalLines
