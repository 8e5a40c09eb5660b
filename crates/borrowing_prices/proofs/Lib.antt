pub mod EnclosureLaws
pub mod WidthLaws
pub mod TabledLaws
pub mod ValueLaws
