pub mod Lines
pub mod Faults
pub mod Replies
pub mod Accepted
pub mod Promise
