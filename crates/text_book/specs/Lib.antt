pub mod Replies
pub mod Commands
pub mod Inner
pub mod BookLines
