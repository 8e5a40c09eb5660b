pub mod LineLaws
pub mod FaultLaws
pub mod ReachLaws
pub mod ReplyLaws
pub mod AcceptedLaws
pub mod PromiseLaws
pub mod LineCases
