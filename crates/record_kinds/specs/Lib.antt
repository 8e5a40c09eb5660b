pub mod Kinds
pub mod Items
