pub mod LineBytes
pub mod Arguments
pub mod ReplyLines
pub mod Printed
