pub mod ByteLaws
pub mod BitLaws
pub mod HexLaws
pub mod ArgumentLaws
pub mod ReplyLaws
pub mod PrintedLaws
pub mod TextCases
